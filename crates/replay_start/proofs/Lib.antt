pub mod Begun
mod CopyLaws
pub mod StartLaws
