pub mod AskedLemmas
pub mod MarkLemmas
mod TableLemmas
mod UserLemmas
