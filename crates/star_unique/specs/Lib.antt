pub mod Repeat
pub mod Sorts
pub mod Chain
pub mod Marked
pub mod Compared
