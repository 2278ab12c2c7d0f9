pub mod Simulations
pub mod States
pub mod OneHop
pub mod Doing
pub mod Lifted
pub mod Weights
