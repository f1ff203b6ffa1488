pub mod Laid
pub mod Numbers
pub mod Places
pub mod Puts
pub mod Shapes
pub mod Sheets
