pub mod ClashLaws
pub mod NewIndex
pub mod Laws
