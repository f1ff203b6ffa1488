pub mod BringLemmas
pub mod DecisionLemmas
pub mod GainLemmas
pub mod ReadLemmas
pub mod RuleLemmas
pub mod SettleLemmas
pub mod TableLemmas
