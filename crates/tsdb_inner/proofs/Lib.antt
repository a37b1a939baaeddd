pub mod Lists
pub mod Putting
pub mod Copied
pub mod Told
pub mod Sources
pub mod Series
pub mod All
pub mod Opened
