pub mod TrailLines
pub mod TrailRows
pub mod Lengths
pub mod Figures
pub mod Report
pub mod Rows
