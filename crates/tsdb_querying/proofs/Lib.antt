pub mod Telling
pub mod Pinned
pub mod Untold
pub mod Answered
pub mod Selected
pub use Rattle.tsdb_serving.proofs.CoreJobs
pub use Rattle.tsdb_serving.proofs.Out
pub use Rattle.tsdb_serving.proofs.Held
pub use Rattle.tsdb_serving.proofs.Differing
pub use Rattle.tsdb_serving.proofs.Parts
pub use Rattle.tsdb_serving.proofs.Steps
pub use Rattle.tsdb_serving.proofs.Flushes
pub use Rattle.tsdb_serving.proofs.Swept
pub use Rattle.tsdb_serving.proofs.Answered as ServingAnswered
pub use Rattle.tsdb_serving.proofs.Full as ServingFull
pub use Rattle.tsdb_serving.proofs.Causes
pub use Rattle.tsdb_pins.proofs.Held as PinsHeld
pub use Rattle.tsdb_pins.proofs.Named
