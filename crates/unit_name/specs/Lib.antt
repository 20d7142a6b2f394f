pub mod Parts
pub mod Name
pub mod Laws
pub mod Specifiers
pub mod Words
