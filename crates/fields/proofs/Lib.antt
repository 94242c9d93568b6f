pub mod Cutting
pub mod Joining
pub mod Digits
pub mod Exits
