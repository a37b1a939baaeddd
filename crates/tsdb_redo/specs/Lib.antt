pub mod NamedNumbers
pub mod Lists
pub mod Opening
pub mod Redone
pub mod Rows
pub mod Runs
pub mod Changes
pub mod FileRecords
