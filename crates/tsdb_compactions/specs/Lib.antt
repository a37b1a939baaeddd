pub mod Jobs
pub mod Outputs
pub mod Plans
pub use Rattle.tsdb_flush.specs.declared.job.Built
pub use Rattle.tsdb_flush.specs.declared.job.FlushJob
pub use Rattle.tsdb_flush.specs.Flushes
pub use Rattle.tsdb_flush.specs.BuiltFile as FlushBuilt
pub use Rattle.tsdb_flush.specs.Jobs as FlushJobs
pub use Rattle.tsdb_flush.specs.Parts
pub use Rattle.tsdb_flush.specs.declared.job.Flushed
pub use Rattle.tsdb_flush.specs.BuiltParts
pub use Rattle.tsdb_flush.specs.TakingSteps
