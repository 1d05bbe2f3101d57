pub mod ByteOrder
pub mod Laws
pub mod TotalOrder
pub mod TextOrder
pub mod KeyDepths
pub mod KeysFormed
