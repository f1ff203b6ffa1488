pub mod FateLists
pub mod Heads
pub mod Less
pub mod Needs
pub mod SplitLines
pub mod StepLines
