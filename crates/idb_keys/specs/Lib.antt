pub mod KeyRange
pub mod View
pub mod Names
pub use Rattle.key_order.specs.KeyOrder
