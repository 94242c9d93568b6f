pub mod Saying
pub mod Outcomes
pub mod Shapes
pub mod Steps
pub mod Filling
pub mod Ranging
