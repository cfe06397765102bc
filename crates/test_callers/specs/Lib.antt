pub mod Sealed
pub mod Payload
pub mod Reply
pub mod Normal
pub mod Probe
pub mod Walk
