mod ClimbLemmas
mod CursorLemmas
mod KindLemmas
mod LadderLemmas
mod NameLemmas
mod PairLemmas
pub mod PlaceLemmas
pub mod WordLemmas
