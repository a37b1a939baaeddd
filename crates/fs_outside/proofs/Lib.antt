mod CauseLemmas
mod FileLemmas
mod DirectoryLemmas
mod NameLemmas
mod OpeningLemmas
