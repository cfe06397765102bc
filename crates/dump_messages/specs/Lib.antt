pub mod ChannelTables
pub mod Channels
pub mod Fates
pub mod Messages
pub mod Payloads
