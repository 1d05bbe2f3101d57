mod Stages
mod Mails
mod Effects
mod Making
mod Growing
mod Stepping
pub mod Laws
