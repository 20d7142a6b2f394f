pub mod Keys
pub mod Order
pub mod Readings
pub mod Merging
pub mod Seeing
pub mod Rules
pub mod Placing
