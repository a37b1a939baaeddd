pub mod Leb
pub mod Zigzag
pub mod Packing
pub mod Faults
pub mod Lists
