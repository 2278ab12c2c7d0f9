pub mod Named
pub mod Walking
pub mod Arrived
pub mod Costs
pub mod Visited
pub mod OtherLine
pub mod Told
pub mod SameHop
