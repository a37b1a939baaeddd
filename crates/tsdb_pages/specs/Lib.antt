pub mod Pages
pub mod Reading
pub mod Trees
pub mod File
pub mod Places
pub mod ListSpelling
pub mod ListSteps
pub mod TypeLaws
