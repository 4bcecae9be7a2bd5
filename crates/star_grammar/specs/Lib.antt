pub mod Tree
pub mod Tables
pub mod Machine
pub mod Sorted
pub mod Layout
pub mod Reading
pub mod Stopless
