pub mod Ids
pub mod Traffic
pub mod Names
pub mod Moves
pub mod Mails
pub mod Room
