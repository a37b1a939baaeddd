pub mod Faults
pub mod Loans
pub mod Rows
pub mod Flushing
pub mod Serving
pub mod Sweeping
pub use Rattle.tsdb_core.specs.Core
pub use Rattle.tsdb_core.specs.Out
pub use Rattle.tsdb_core.specs.Loans as CoreLoans
pub use Rattle.tsdb_core.specs.Places
pub use Rattle.tsdb_core.specs.Pins
pub use Rattle.tsdb_core.specs.declared.engine.Core as CoreType
pub use Rattle.tsdb_core.specs.Beginnings
pub use Rattle.tsdb_core.specs.Listings
pub use Rattle.tsdb_core.specs.Limits
pub use Rattle.tsdb_core.specs.Compactions
pub use Rattle.tsdb_core.specs.Replacements
pub use Rattle.tsdb_core.specs.Sweeps
pub use Rattle.tsdb_core.specs.declared.commit.CoreFault
pub use Rattle.tsdb_core.specs.declared.commit.CoreFault.TheVariants
pub use Rattle.tsdb_core.specs.Files as TasksFiles
pub use Rattle.tsdb_core.specs.Inputs
pub use Rattle.tsdb_core.specs.Finishing
pub use Rattle.tsdb_core.specs.InputRuns
pub use Rattle.tsdb_core.specs.TasksEnding
pub use Rattle.tsdb_core.specs.Changes
pub use Rattle.tsdb_core.specs.States
pub use Rattle.tsdb_core.specs.Outputs
