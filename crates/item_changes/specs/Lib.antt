pub mod Items
pub mod Effects
pub mod Scopes
pub use Rattle.object_stores.specs.Changed
pub use Rattle.object_stores.specs.Showing
pub use Rattle.object_stores.specs.Store
pub use Rattle.object_stores.specs.Storing
pub use Rattle.object_stores.specs.IsStore
