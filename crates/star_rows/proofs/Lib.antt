pub mod Clear
pub mod Held
pub mod WordPut
pub mod Stored
pub mod Words
