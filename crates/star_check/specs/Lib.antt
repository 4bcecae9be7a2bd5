pub mod Check
pub mod Fits
pub mod Demands
