pub mod Targets
pub mod Cleared
pub mod Edited
pub mod Turns
pub mod Making
pub mod Marks
pub mod Ends
pub mod Running
