mod Interrupting
pub mod Laws
