pub mod Blanks
pub mod FileLines
pub mod PresetLines
pub mod InstallLines
