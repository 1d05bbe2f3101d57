pub mod Places
pub mod Logging
pub mod StepLaws
pub mod Lessening
pub mod Standing
pub mod Laws
