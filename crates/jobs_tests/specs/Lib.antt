pub mod Begins
pub mod Free
pub mod Out
