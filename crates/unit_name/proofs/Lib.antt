pub mod Cuts
pub mod Names
pub mod Instances
pub mod Expansions
pub mod Pieces
