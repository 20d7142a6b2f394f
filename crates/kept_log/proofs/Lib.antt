pub mod Walks
pub mod Choices
