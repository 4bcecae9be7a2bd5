pub mod Putting
pub mod Lengths
pub mod Last
pub mod Delimiters
pub mod Prefix
pub mod Keeping
pub mod Taken
pub mod Held
