pub mod Descents
pub mod EachText
pub mod RunLines
pub mod Sections
pub mod TableOfRows
