pub mod Read
pub mod Answer
pub mod Judged
pub mod Demands
pub mod Known
