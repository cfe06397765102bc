pub mod InputFormats
pub mod LineDrops
pub mod Passed
pub mod Steps
