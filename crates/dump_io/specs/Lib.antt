pub mod Output
pub mod Transfer
pub mod Watched
pub mod Window
