pub mod Lists
pub mod Refusals
pub mod Words
pub mod Put
