pub mod FoldLemmas
pub mod LawLemmas
pub mod PendingLemmas
pub mod PlainLemmas
pub mod PointLemmas
pub mod RowLemmas
pub mod WorldLemmas
