pub mod Decimal
pub mod Pieces
pub mod Words
pub mod Cells
pub mod Listings
pub mod Replies
