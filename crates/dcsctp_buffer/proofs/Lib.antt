pub mod Items
pub mod Buffers
pub mod Extended
pub mod Longer
pub mod Numbers
pub mod ForwardTsns
