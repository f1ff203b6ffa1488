pub mod JudgingFiles
pub mod Keeping
pub mod Once
pub mod Zero
