pub mod Loads
pub mod Pieces
pub mod Winners
pub mod Steps
pub mod Lanes
pub mod SpendLaws
