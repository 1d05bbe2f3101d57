mod Asking
mod Unchanged
mod Keys
mod TurnLemmas
mod Calls
mod Named
