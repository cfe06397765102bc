pub mod Linear
pub mod Pieces
pub mod Rows
pub mod Words
