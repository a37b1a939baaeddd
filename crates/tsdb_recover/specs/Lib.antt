pub mod Causes
pub mod Files
pub mod Log
pub mod Replaying
pub mod DescribedSteps
pub mod DescribedTrees
pub mod Adopting
pub mod FileEntries
pub mod Steps
pub mod Damage
pub mod OpenedStore
pub mod Strays
pub mod StoredFiles
pub mod Taking
pub use Rattle.tsdb_core.specs.Limits
pub use Rattle.tsdb_core.specs.Core
pub use Rattle.tsdb_core.specs.declared.engine.Core as CoreType
