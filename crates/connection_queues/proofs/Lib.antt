pub mod StepLemmas
pub mod Settling
pub mod Steady
pub mod Laws
