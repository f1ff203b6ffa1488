pub mod Moves
pub mod Putting
pub mod Turning
