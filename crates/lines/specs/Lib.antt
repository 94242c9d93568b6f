pub mod Kinds
pub mod Forms
pub mod Texts
pub mod Lent
pub mod Ranges
