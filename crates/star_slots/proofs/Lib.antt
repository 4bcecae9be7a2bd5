pub mod Slots
pub mod Scanning
