pub mod Faults
pub mod Parts
pub mod Bodies
pub mod Exits
pub mod Wholes
pub mod ShortFields
pub mod Sizes
pub mod SnapshotExits
