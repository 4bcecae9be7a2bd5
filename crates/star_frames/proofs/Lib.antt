pub mod Bounds
pub mod Closing
pub mod Retagging
pub mod Tracking
pub mod Layouts
