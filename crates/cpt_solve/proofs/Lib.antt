pub mod Outcomes
pub mod Telling
pub mod Deciding
pub mod Keeping
