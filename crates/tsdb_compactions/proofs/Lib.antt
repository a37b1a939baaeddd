pub mod Contents
pub mod Outputs
pub mod Marks
pub mod Planned
pub mod Staying
pub mod Crossing
pub use Rattle.tsdb_flush.proofs.Contents as FlushContents
pub use Rattle.tsdb_flush.proofs.Entries
pub use Rattle.tsdb_flush.proofs.Memory
pub use Rattle.tsdb_flush.proofs.Members
