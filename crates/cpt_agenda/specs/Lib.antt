pub mod Agendas
pub mod Asked
pub mod Cells
pub mod Marks
pub mod Users
