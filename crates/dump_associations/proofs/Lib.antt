pub mod ChunkCounts
pub mod HeaderCounts
pub mod Marks
pub mod PathCounts
pub mod Slots
