pub mod Others
pub mod Lines
pub mod Kinds
pub mod Texts
pub mod Laws
