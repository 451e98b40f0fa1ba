pub mod Limits
pub mod Net
pub mod Table
pub mod Held
pub mod Ruled
pub mod Answer
pub mod Rows
