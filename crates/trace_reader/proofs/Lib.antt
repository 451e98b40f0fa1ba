pub mod HandedLaws
pub mod ReadLaws
pub mod WindowLaws
mod Body
pub mod Behind
pub mod Runs
