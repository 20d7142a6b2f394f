pub mod Paths
pub mod Canonical
pub mod Places
pub mod Slots
pub mod Kinds
pub mod Shape
pub mod Spellings
pub mod Laws
