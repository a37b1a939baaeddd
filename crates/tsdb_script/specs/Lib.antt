pub mod Forms
pub mod LineSteps
pub mod Meaning
pub mod Parse
pub mod Reading
pub mod Steps
pub mod Tokens
pub mod Types
