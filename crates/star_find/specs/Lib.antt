pub mod Find
pub mod Lending
pub mod Demands
