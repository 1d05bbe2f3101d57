pub mod BodiesLemmas
pub mod PlansLemmas
pub mod UpgradesLemmas
