pub mod ChangedAt
pub mod ScopeLemmas
pub mod ChangeLemmas
pub mod Laws
