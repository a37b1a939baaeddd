pub mod Text
pub mod Alike
