pub mod Joined
pub mod MergeLemmas
pub mod Pulls
pub mod ReadLemmas
pub mod SourceLemmas
pub mod TreeLemmas
