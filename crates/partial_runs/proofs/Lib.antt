pub mod Areas
pub mod OnKeys
pub mod Within
pub mod Captured
pub mod Turns
pub mod OnAll
