mod RisingLemmas
mod LaneLemmas
mod Places
mod Keeping
mod Starting
