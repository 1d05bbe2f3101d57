pub mod Expression
pub mod Forms
pub mod Documents
pub mod Expressions
