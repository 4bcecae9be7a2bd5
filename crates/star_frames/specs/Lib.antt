pub mod Frames
pub mod Tracked
