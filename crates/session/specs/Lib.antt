pub mod Standing
pub mod Replies
pub mod Pages
pub mod Sessions
