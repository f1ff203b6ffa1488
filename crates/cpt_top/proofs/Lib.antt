pub mod Once
pub mod RunLemmas
