pub mod Texts
pub mod Rows
pub mod Places
pub mod Results
