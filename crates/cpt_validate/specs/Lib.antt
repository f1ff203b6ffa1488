pub mod Commands
pub mod Valid
pub mod Verdicts
