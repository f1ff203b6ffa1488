pub mod Arrays
pub mod Names
