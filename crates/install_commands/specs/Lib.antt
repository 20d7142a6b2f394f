pub mod Check
pub mod Enable
pub mod Disable
pub mod Reenable
pub mod Preset
pub mod Laws
pub mod CompositeLaws
