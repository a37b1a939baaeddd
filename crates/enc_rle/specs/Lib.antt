pub mod Spelling
pub mod CodeLaws
pub mod Steps
