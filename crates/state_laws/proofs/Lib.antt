pub mod NotNull
pub mod Files
pub mod Masked
pub mod Linked
pub mod Disabled
