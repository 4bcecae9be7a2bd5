pub mod Write
pub mod Answer
pub mod Demands
