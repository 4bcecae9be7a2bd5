pub mod Reached
pub mod Parsed
pub mod Reader
