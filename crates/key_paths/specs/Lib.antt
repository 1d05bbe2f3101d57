pub mod Comparing
pub use Rattle.key_order.specs.Conversion
pub mod Evaluation
pub mod Injection
pub mod KeysSeen
pub mod View
