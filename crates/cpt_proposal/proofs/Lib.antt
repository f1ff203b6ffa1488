pub mod LeastLemmas
pub mod ReaderLemmas
