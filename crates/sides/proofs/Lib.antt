pub mod Ranks
pub mod Scanning
pub mod Shifting
