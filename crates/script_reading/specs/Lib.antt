pub mod BlockPlaces
pub mod Kinds
pub mod StatementForms
pub mod Fields
pub mod Statements
pub mod Places
pub mod Layers
pub mod Bytes
