pub mod Listings
pub mod Touched
