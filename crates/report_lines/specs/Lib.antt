pub mod LineWords
pub mod ReportText
pub mod Words
