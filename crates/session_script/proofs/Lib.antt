pub mod Fewness
pub mod Owned
pub mod Told
