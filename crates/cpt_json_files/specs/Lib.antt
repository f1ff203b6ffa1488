pub mod Exporting
pub mod Faults
pub mod Validating
