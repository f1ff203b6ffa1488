pub mod Firsts
pub mod Inserts
pub mod Takes
