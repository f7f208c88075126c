pub mod Changes
pub mod Sheets
pub mod Questions
pub mod Published
pub mod Histories
pub mod Law
pub mod Replays
