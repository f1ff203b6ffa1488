pub mod Entries
pub mod Faults
pub mod Grammar
pub mod Knowing
pub mod Meaning
pub mod Parsing
pub mod Spelling
