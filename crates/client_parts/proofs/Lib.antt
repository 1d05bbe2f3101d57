pub mod Rising
pub mod Places
pub mod Once
pub mod Posts
