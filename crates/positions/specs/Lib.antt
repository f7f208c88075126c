pub mod Positions
pub mod LeafSets
pub mod Steps
pub mod SetsOf
pub mod Visits
pub mod Theorems
