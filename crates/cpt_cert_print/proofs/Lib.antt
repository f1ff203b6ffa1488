pub mod RowLemmas
pub mod Runs
pub mod WholeLemmas
pub mod Writing
