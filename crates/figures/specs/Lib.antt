pub mod Bounds
pub mod Orders
pub mod Refusals
pub mod Texts
