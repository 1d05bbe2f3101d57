pub mod Documents
pub mod Kept
pub mod WellFormedReading
pub mod Folds
pub mod RoundTrip
pub mod Members
pub mod TokensLemmas
pub mod LevelsLemmas
