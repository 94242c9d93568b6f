pub mod Sides
pub mod Taking
pub mod Sheet
pub mod Calls
pub mod Represents
pub mod Refines
