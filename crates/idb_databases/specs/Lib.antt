pub mod Named
pub mod Stores
pub mod Items
pub mod Views
