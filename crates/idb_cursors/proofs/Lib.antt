pub mod Ahead
pub mod Costs
pub mod Directions
pub mod Further
pub mod Nearest
pub mod Positions
pub mod TurnLaws
pub mod VisitLaws
