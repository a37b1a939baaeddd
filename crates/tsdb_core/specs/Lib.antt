pub mod Core
pub mod Ending
pub mod Flushes
pub mod Limits
pub mod Loans
pub mod Commands
pub mod Compactions
pub mod Sweeps
pub mod Worlds
pub mod Rows
pub mod RowSteps
pub mod Pins
pub mod Listings
pub mod Beginnings
pub mod Replacements
pub mod Out
pub use Rattle.tsdb_tasks.specs.Files
pub use Rattle.tsdb_fileset.specs.Places
pub use Rattle.tsdb_fileset.specs.Files as FilesetFiles
pub use Rattle.tsdb_fileset.specs.StateOfFiles
pub use Rattle.tsdb_fileset.specs.Sweeps as FilesetSweeps
pub use Rattle.tsdb_fileset.specs.Listings as FilesetListings
pub use Rattle.tsdb_tasks.specs.Inputs
pub use Rattle.tsdb_tasks.specs.Finishing
pub use Rattle.tsdb_tasks.specs.declared.finishing.InputRuns
pub use Rattle.tsdb_tasks.specs.Ending as TasksEnding
pub use Rattle.tsdb_tasks.specs.Changes
pub use Rattle.tsdb_tasks.specs.States
pub use Rattle.tsdb_tasks.specs.Outputs
pub use Rattle.tsdb_fileset.specs.Jobs
pub use Rattle.tsdb_fileset.specs.FlushJob
pub use Rattle.tsdb_fileset.specs.Flushed
pub use Rattle.tsdb_fileset.specs.FlushBuilt as Built
pub use Rattle.tsdb_fileset.specs.Parts
pub use Rattle.tsdb_fileset.specs.Built as BuiltType
