pub mod Outcomes
pub mod Masked
pub mod Hands
pub mod Targets
pub mod Linked
