pub mod Sets
pub mod Questions
pub mod Slots
pub mod Installs
pub mod Discovery
pub mod Whole
