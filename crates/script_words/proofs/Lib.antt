mod Digits
pub mod EscapedTexts
pub mod NumberWords
pub mod WordBytes
