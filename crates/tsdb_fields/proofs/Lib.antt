pub mod Counted
pub mod Appending
pub mod Laws
pub mod Parts
pub mod Taken
pub use Rattle.tsdb_path.proofs.Order
