pub mod StoreChanges
