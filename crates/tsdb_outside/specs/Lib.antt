pub mod Causes
pub mod Disk
pub mod Files
pub mod Laws
pub mod Limits
pub mod Moments
pub mod Texts
