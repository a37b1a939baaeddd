pub mod Doubts
pub mod Parted
pub mod Stores
