pub mod AtomNames
pub mod Groups
pub mod InRange
pub mod KeptPlain
pub mod Lists
pub mod Pigeons
pub mod Tidy
pub mod Zips
