pub mod Spans
pub mod Judged
pub mod Restored
pub mod Demands
pub mod Numbers
