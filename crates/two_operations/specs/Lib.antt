pub mod Then
pub mod Laws
