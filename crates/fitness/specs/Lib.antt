pub mod Fitness
pub mod Rounding
