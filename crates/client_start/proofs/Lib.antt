mod Starts
mod Restores
