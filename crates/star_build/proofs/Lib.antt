pub mod Zeros
pub mod Free
pub mod Filling
pub mod Building
pub mod Kept
pub mod Answering
pub mod Known
