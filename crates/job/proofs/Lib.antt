pub mod Holding
mod Splitting
