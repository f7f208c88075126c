pub mod Keys
pub mod Names
pub mod Parts
pub mod Sizes
