mod Accepted
mod Becoming
mod Clones
pub mod Laws
mod Named
mod Numbered
mod Taken
