pub mod Changing
pub mod Listed
pub mod Copied
pub mod Asked
pub mod Gathered
pub mod Stated
pub mod Pinned
pub mod Crossing
