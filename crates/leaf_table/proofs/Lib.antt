pub mod Within
pub mod TableLemmas
pub mod PutLemmas
pub mod TakeLemmas
