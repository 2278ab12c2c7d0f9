pub mod Derivations
pub mod Endings
pub mod Laws
