pub mod Lts
pub mod Equations
pub mod Plain
pub mod Calls
pub mod Law
pub mod Preorder
pub mod MarkedRuns
pub mod Comparisons
