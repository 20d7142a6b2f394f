pub mod Runs
pub mod Lines
pub mod Concerns
pub mod Filters
pub mod Tables
