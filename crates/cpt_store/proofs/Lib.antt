pub mod CopyLemmas
pub mod DeathLemmas
pub mod HeldLemmas
pub mod KeptLemmas
pub mod RelatedLemmas
pub mod StoreLemmas
