pub mod BlockPlacesLemmas
pub mod LayersLemmas
