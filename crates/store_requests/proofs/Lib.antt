pub mod AnswerLemmas
pub mod RemovalLemmas
pub mod StoringLemmas
pub mod Chains
pub mod RunChains
pub mod Laws
