pub mod Flows
pub mod Lists
pub mod Reading
pub mod Filling
