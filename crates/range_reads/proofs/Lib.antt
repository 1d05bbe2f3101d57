pub mod MemberLemmas
pub mod Splitting
pub mod Rising
pub mod Laws
