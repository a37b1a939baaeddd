pub mod After
pub mod Kept
pub mod Leaving
pub mod Numbers
pub mod Storing
