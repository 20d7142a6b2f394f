pub mod Objects
pub mod Changes
pub mod Answers
pub mod Rows
pub mod Logs
pub mod Lines
