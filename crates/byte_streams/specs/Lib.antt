pub mod Streams
pub mod Reads
pub mod Blocks
pub mod Lines
pub mod Pieces
pub mod Writes
