pub mod Sorts
pub mod Starts
mod Stamps
mod Twins
pub mod Listed
