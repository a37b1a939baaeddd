pub mod Statistics
pub mod Steps
pub use Rattle.tsdb_model.specs.Folds
pub use Rattle.tsdb_model.specs.Nodes
