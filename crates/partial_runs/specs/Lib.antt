pub mod Captures
pub mod Runs
