pub mod Answers
pub mod Outline
pub mod Page
pub mod Parts
pub mod Meta
pub mod LookUp
pub mod Blame
pub mod Steps
