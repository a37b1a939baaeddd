pub mod PairLemmas
pub mod PlaceLemmas
pub mod PointLemmas
pub mod Crossing
