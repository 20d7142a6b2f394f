pub mod Spelling
pub mod Plain
pub mod PlainRows
