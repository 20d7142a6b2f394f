pub mod Inquiry
pub mod Operations
pub mod Steps
pub mod Units
pub mod Commands
pub mod Net
pub mod Then
pub mod Laws
