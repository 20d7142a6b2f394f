pub mod Skipped
pub mod Reports
pub mod Installs
pub mod Lines
