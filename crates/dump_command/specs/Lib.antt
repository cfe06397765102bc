pub mod Counts
pub mod Times
pub mod Tracked
pub mod Verdict
pub mod Warnings
