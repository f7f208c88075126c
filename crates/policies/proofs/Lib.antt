pub mod Tops
pub mod PosixOrder
pub mod FirstTop
pub mod FirstOrder
pub mod Walks
pub mod Answered
pub mod Uniques
