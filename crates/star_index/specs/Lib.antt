pub mod Index
pub mod Inner
pub mod Demands
