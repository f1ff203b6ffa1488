pub mod FormedLemmas
pub mod GapLemmas
pub mod Tests
pub mod EachLemmas
