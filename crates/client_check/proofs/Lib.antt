pub mod Checks
pub mod ObjectLaws
