pub mod Choices
pub mod Durations
pub mod Instances
pub mod Listing
pub mod NameReading
pub mod Named
pub mod Values
