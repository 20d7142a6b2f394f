pub mod Questions
pub mod IsEnabled
pub mod GetDefault
pub mod Dependencies
pub mod Laws
pub mod DependencyLaws
pub mod Reaching
