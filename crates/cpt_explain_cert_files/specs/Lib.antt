pub mod Commands
pub mod Counted
pub mod Numbers
