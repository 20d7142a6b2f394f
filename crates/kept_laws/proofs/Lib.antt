pub mod Found
pub mod Parts
pub mod Paths
pub mod Unsynced
pub mod Rows
