pub mod ShelfLemmas
pub mod PileLemmas
pub mod Joining
