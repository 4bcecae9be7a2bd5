pub mod OtherLayout
pub mod Exchanging
pub mod TodayTable
pub mod Converting
pub mod Converted
pub mod OverAndBack
pub mod Demand1
