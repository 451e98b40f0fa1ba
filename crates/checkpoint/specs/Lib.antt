pub mod Restore
pub mod Bodies
pub mod Calls
pub mod Demand
pub mod Answers
pub mod Take
