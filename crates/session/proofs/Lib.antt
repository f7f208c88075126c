pub mod Shapes
mod Splits
pub mod Prints
mod Turns
mod Decided
