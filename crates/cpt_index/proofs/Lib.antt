pub mod IndexLemmas
pub mod NeedLemmas
pub mod RowLemmas
