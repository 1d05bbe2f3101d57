pub mod KeyPath
