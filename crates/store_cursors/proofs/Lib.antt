pub mod MemberLemmas
pub mod Laws
