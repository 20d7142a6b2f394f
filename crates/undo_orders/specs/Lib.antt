pub mod ToUndo
pub mod Laws
