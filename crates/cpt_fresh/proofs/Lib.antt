pub mod ExtendLemmas
pub mod FlawLemmas
pub mod FreshLemmas
pub mod LastLemmas
