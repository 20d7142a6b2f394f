pub mod Roots
pub mod Runs
pub mod Recovery
pub mod Laws
pub mod Doing
pub mod Finishing
pub mod Sorting
