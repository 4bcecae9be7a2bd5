pub mod Locating
pub mod Links
pub mod TokenRows
pub mod Values
pub mod InOrder
pub mod Demand1
