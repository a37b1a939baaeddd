pub mod Model
pub mod Limits
pub mod PairModel
pub mod Pairs
pub mod Points
pub mod Steps
pub mod Watermarks
