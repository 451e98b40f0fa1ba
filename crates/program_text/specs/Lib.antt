pub mod Program
pub mod FromFile
pub mod Rows
