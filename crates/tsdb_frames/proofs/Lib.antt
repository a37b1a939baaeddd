pub mod AsideLemmas
pub mod CallLemmas
pub mod Counted
pub mod LogLemmas
pub mod MomentLemmas
mod StepLemmas
pub mod FirstLemmas
pub mod PartLemmas
pub mod PieceLemmas
pub mod ReaderLemmas
pub mod RecordLemmas
pub mod ScanLemmas
pub mod SlotLemmas
