pub mod Search
pub mod Follow
pub mod Chains
pub mod RealNames
pub mod Find
pub mod Laws
