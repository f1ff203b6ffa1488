pub mod Fronts
pub mod LineForms
pub mod TreeForms
