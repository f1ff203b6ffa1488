pub mod Keeping
pub mod Performing
pub mod Stages
pub mod Verdicts
pub mod Zero
