pub mod MovingLemmas
pub mod RowLemmas
pub mod TableLemmas
