pub mod BoardLemmas
pub mod LimitLemmas
pub mod RuleLemmas
pub mod RowLemmas
pub mod RoundLemmas
pub mod TableLemmas
