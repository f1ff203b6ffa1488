pub mod FrontierLemmas
pub mod TraversalLemmas
pub mod BoundLemmas
pub mod EngineLemmas
