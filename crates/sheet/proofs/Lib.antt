pub mod Inks
pub mod Writing
