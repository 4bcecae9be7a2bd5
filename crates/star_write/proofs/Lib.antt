pub mod Outcomes
pub mod RoundTrip
pub mod StopsDropped
pub mod Demand1
