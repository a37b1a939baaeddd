pub mod Nodes
pub mod Refusals
pub mod Steps
pub mod Order
