pub mod AboveLemmas
pub mod BringViews
pub mod LandingLemmas
pub mod LeastLemmas
pub mod PlaceLemmas
pub mod RoomLemmas
pub mod RunLemmas
pub mod TightLemmas
