pub mod Ahead
pub mod Buckets
pub mod Calendar
pub mod Firsts
pub mod PacketTypes
pub mod Questions
