pub mod Stepping
pub mod Remaining
