pub mod Entries
pub mod InMemory
pub mod Meaning
pub mod Reading
pub mod SinkInMemory
