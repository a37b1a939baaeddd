pub mod Copies
pub mod Steps
pub mod Inputs
pub mod Winners
