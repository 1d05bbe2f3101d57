mod Bounds
mod Refused
