pub mod Answering
mod Certifying
pub mod Holding
pub mod Keeping
pub mod Once
