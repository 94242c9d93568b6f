pub mod Rulebooks
pub mod Placing
pub mod Reading
