pub mod Checks
pub mod Sealing
pub mod Chunks
pub mod Replies
pub mod Rooms
pub mod Texts
pub mod Building
pub mod Sums
