pub mod TraversalLemmas
pub mod TextLemmas
pub mod ConclusionLemmas
pub mod CountLemmas
pub mod BudgetLemmas
