pub mod Trees
pub mod Texts
pub mod Deepening
pub mod Counts
