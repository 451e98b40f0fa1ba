mod Kept
mod File
