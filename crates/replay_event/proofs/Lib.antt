pub mod Answered
pub mod Asks
pub mod Steps
pub mod Taken
