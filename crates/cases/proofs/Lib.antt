mod Names
pub mod Picks
pub mod Rows
pub mod Stacks
