pub mod Reasons
pub mod Slots
pub mod Enable
