pub mod Board
pub mod Rules
pub mod Rows
pub mod Rounds
