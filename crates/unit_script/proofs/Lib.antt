pub mod Calls
pub mod ScriptLines
pub mod WordLists
pub mod Histories
pub mod OpenLines
