pub mod Trace
pub mod Answers
pub mod Parts
pub mod Claims
pub mod Followed
pub mod AllEvents
