-- what a user must believe: the lines, what each prints, and the whole session
pub mod Printed
pub mod Served
pub mod Theorems
-- what the functions promise one another
pub mod NameLines
