pub mod Apply
pub mod Commands
pub mod Folds
pub mod History
pub mod State
pub mod World
pub use Rattle.tsdb_path.specs.Nodes
