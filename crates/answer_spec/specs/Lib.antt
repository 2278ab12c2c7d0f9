pub mod WellFormed
pub mod Ordered
pub mod Potentials
pub mod Certificate
pub mod Exact
pub mod Bounds
pub mod Arriving
