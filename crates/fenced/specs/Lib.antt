pub mod Fenced
pub mod FencedAnswers
pub mod Fences
