mod InsertLemmas
mod MarkLemmas
