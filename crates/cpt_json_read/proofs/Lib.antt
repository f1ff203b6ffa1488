pub mod Firsts
pub mod Lists
pub mod Named
pub mod Parts
pub mod Wholes
