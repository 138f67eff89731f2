pub mod Choosing
pub mod Holding
pub mod Piling
pub mod Sorting
