pub mod Begins
pub mod Layouts
pub mod Legs
pub mod Walk
