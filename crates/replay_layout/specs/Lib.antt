pub mod Fresh
pub mod Offsets
