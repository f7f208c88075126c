-- what a user must believe: what best_reading answers
pub mod Matching
-- what the engine's functions promise one another
pub mod Sizes
pub mod Frames
pub mod Cells
pub mod Unpacking
pub mod Benches
pub mod States
pub mod Searches
pub mod Leaders
