pub mod Scanning
pub mod Indexing
pub mod Exactly
pub mod Marking
pub mod Runs
pub mod Probing
pub mod IndexLookup
pub mod Kept
