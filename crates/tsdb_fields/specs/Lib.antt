pub mod Reading
pub mod Statistics
pub use Rattle.tsdb_path.specs.Nodes
pub use Rattle.tsdb_path.specs.Order
