pub mod Judging
pub mod Progress
