pub mod Asked
pub mod Replies
pub use Rattle.tx_courses.specs.Changes
pub use Rattle.tx_courses.specs.Courses
