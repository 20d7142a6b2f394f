pub mod Sums
pub mod Values
pub mod Lines
pub mod Sayings
pub mod Readings
pub mod Texts
pub mod Laws
