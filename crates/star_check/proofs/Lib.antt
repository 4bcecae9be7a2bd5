pub mod Fitting
pub mod OldBench
