pub mod Slots
pub mod Lookup
pub mod Inner
