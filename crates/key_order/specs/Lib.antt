pub mod KeyOrder
pub mod Conversion
pub use Rattle.clone_values.specs.KeyTree
pub use Rattle.clone_values.specs.View
pub use Rattle.clone_values.specs.declared.key_types.Key
