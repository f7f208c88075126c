-- what a user must believe: the grammar, what read answers, the theorems
pub mod Grammar
pub mod Reading
pub mod Theorems
-- what the lexer and the four readers promise one another
pub mod Signs
pub mod Readers
pub mod Written
pub mod Steps
