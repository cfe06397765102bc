pub mod Equality
pub mod Serial
pub mod StreamKey
