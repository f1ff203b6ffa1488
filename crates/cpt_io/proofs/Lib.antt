pub mod EntryLemmas
pub mod Progress
