pub mod Each
pub mod State
pub mod Links
pub mod Decisions
pub mod Turning
pub mod Renewing
pub mod View
pub mod Room
