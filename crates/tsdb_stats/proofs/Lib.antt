pub mod Extremes
pub mod Joining
pub mod Sums
