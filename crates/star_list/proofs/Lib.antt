pub mod Putting
pub mod Decimal
pub mod Lines
pub mod Reading
pub mod Fits
pub mod Known
pub mod Whole
