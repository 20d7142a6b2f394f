pub mod Gathered
pub mod Undos
