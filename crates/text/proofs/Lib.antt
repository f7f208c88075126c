mod Lexing
mod Unique
pub mod Derives
mod Bytes
mod Building
mod Combine
mod Room
mod Steps
mod Whole
pub mod Outcomes
