pub mod Bytes
pub mod Parts
pub mod Dots
pub mod Walk
pub mod Reasons
pub mod Order
