pub mod ChunkKinds
pub mod PacketCounts
pub mod Powers
