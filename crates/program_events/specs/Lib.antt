pub mod Ends
pub mod Window
