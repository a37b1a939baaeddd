pub mod TimeLemmas
pub mod TimeTests
