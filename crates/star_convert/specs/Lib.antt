pub mod Convert
pub mod Inner
pub mod Demands
