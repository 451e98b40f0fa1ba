pub mod Follows
pub mod OneStep
pub mod Outcomes
