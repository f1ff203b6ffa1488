pub mod Commands
pub mod Judging
pub mod Laws
pub mod Lines
pub mod Made
