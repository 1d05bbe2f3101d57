pub mod SamenessLaws
pub mod Lists
pub mod Laws
