pub mod Records
pub mod Lists
pub mod Table
pub mod TableAnswers
pub mod Tables
