pub mod LeavesLemmas
pub mod RankLemmas
pub mod Shrinking
pub mod Halves
pub mod EndsLemmas
pub mod BlockLemmas
pub mod Laws
