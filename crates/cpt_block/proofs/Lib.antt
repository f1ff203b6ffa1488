pub mod Kepts
pub mod Lookups
pub mod Parts
pub mod Rows
pub mod Sheets
