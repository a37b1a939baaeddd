mod Moves
mod StopLemmas
mod JournalLemmas
mod CountedCalls
mod EntryLemmas
mod PlaceLemmas
