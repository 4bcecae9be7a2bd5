pub mod Build
pub mod Known
pub mod Demands
