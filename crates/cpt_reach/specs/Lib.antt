pub mod Kept
pub mod Marking
pub mod Plans
pub mod Pruning
pub mod Reached
