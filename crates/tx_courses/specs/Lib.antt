pub mod Courses
pub mod Changes
