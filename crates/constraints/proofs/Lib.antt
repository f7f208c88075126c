mod TextAdded
mod Said
mod NameAnswered
mod Prints
mod Turns
mod Decided
