pub mod Evaluating
pub mod Seeing
