pub use Rattle.store_contents.specs.Store
pub use Rattle.store_contents.specs.IsStore
pub use Rattle.store_contents.specs.Changed
pub use Rattle.store_contents.specs.Showing
pub mod View
pub use Rattle.store_contents.specs.Storing
pub mod Undo
pub mod Parts
