pub mod ChoosingLemmas
pub mod FirstLemmas
pub mod LeafLemmas
pub mod LeafOrder
pub mod ListLemmas
