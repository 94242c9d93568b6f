pub mod Answering
pub mod Counting
pub mod Lengths
pub mod Paging
pub mod Replaying
