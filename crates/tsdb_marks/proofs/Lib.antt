pub mod StepLemmas
pub mod MergeLemmas
pub mod RunLemmas
pub mod IndexLemmas
pub mod ModelLemmas
pub mod OnlyLemmas
pub mod Crossing
