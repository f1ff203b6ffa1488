pub mod Losing
pub mod Only
pub mod Staging
pub mod Validity
