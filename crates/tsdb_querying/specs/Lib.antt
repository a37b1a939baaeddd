-- The definitions of this crate.
pub mod Answers
pub mod Pinning
pub use Rattle.tsdb_serving.specs.Flushing
pub use Rattle.tsdb_serving.specs.Loans
pub use Rattle.tsdb_serving.specs.Out
pub use Rattle.tsdb_serving.specs.declared.loan.Loan
pub use Rattle.tsdb_serving.specs.Serving
pub use Rattle.tsdb_serving.specs.Sweeping
pub use Rattle.tsdb_serving.specs.Core
pub use Rattle.tsdb_serving.specs.Beginnings
pub use Rattle.tsdb_serving.specs.Listings
pub use Rattle.tsdb_serving.specs.CoreType
pub use Rattle.tsdb_serving.specs.Faults
pub use Rattle.tsdb_serving.specs.declared.fault.FlushFault
pub use Rattle.tsdb_serving.specs.declared.fault.FlushFault.TheVariants
pub use Rattle.tsdb_pins.specs.Reading
