pub mod Sessions
pub mod Runs
pub mod Faults
pub mod Desks
pub mod Fed
