pub mod Kept
pub mod ReadBack
pub mod Walks
