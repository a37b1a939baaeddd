pub mod DiskLemmas
mod ListOfNumbers
