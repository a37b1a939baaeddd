pub mod Out
pub mod Ready
