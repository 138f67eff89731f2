pub mod Closing
pub mod Kept
pub mod Places
pub mod Ranked
pub mod Sound
