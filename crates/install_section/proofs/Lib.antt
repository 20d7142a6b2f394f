pub mod Steps
pub mod ClosureSteps
pub mod LinkMaps
pub mod Least
pub mod Asked
pub mod WantedSets
pub mod LooksAsFind
