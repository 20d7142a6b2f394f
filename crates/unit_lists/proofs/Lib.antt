pub mod Texts
pub mod ListedNames
