pub mod CrossSteps
pub mod Hulls
pub mod ListFacts
pub mod PlaceLemmas
pub mod Rows
pub mod Shorter
pub mod Walk
