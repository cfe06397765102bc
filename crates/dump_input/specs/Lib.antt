pub mod Handed
pub mod Inputs
