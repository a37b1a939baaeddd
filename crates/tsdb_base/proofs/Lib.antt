pub mod GrowthLemmas
pub mod Halves
pub mod Lists
pub mod PlainLists
pub mod RisingLemmas
