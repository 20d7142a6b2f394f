pub mod Noted
pub mod Alike
pub mod Turns
pub mod SlotChanges
