pub mod OnTrail
pub mod Checked
pub mod Objects
