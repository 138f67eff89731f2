pub mod Front
pub mod Steps
pub mod Unique
