pub mod Histories
pub mod SerialResults
pub mod Legal
