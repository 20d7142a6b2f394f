pub mod Effects
pub mod Masks
pub mod LinkUnits
pub mod AddTo
pub mod SetDefault
pub mod ByHand
