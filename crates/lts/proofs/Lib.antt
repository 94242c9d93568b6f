pub mod Bounds
pub mod Counts
pub mod Bits
pub mod Ranges
