pub mod Deciding
pub mod Faults
pub mod Leasts
pub mod Plans
pub mod Sheets
pub mod Steps
pub mod Verdicts
