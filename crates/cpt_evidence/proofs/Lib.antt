pub mod TreeTexts
pub mod Depths
pub mod Refutations
pub mod EvidenceLemmas
pub mod SameTexts
