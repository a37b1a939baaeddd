pub mod Appending
pub mod Grouping
pub mod Made
pub mod Waiting
pub mod Closing
pub mod Same
pub mod Driving
pub use Rattle.tsdb_pages.proofs.Order
