mod Told
mod Placed
mod Faults
mod Beginnings
mod FinishOrder
mod Ending
mod Fresh
mod Passing
mod Turning
mod Moving
mod Finishing
mod Ready
mod Lasting
pub mod Laws
