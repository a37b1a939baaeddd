pub mod FirstUses
pub mod SpellingLaws
pub mod Different
pub mod DictionaryLaws
pub mod Lent
