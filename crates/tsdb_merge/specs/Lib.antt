pub mod Causes
pub mod Merging
pub mod Steps
pub mod Supplies
pub mod Winners
