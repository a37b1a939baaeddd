pub mod States
pub mod Untold
pub mod Listed
pub mod Outputs
pub mod Begun
pub mod Ended
pub mod Told
pub mod Whole
