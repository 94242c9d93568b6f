pub mod Parts
pub mod Jobs
pub mod Reading
