pub mod NamesLemmas
pub mod ChangesLemmas
pub mod SoundLemmas
