pub mod StartAnswers
pub mod Startable
