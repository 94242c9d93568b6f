mod Placing
mod Putting
pub mod Walking
