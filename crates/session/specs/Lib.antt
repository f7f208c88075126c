pub mod Lines
pub mod Kinds
pub mod Served
pub mod Theorems
