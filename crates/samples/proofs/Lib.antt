pub mod Computed
mod Shapes
