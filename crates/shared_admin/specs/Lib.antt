pub mod Events
pub mod Laws
pub mod Sharing
pub mod Holds
pub mod Closing
