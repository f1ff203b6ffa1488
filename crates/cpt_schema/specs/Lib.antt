pub mod Conditions
pub mod Durations
pub mod Effects
pub mod Schemas
pub mod Shapes
pub mod Terms
