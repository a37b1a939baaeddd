pub mod Lists
pub mod Types
pub mod Cells
pub mod RowParts
pub mod MapAnswers
pub mod Weights
pub mod Counts
pub mod Putting
