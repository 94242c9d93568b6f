pub mod Sorting
pub mod Repetition
