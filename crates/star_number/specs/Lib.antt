pub mod Pieces
pub mod Number
pub mod Taken
pub mod Held
pub mod Forms
pub mod Demands
