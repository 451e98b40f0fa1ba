pub mod Client
pub mod Writing
pub mod Objects
pub mod CallList
pub mod MaxRecord
pub mod MaxLine
pub mod Figures
