pub mod Makers
pub mod Slots
