pub mod Ranking
pub mod Listing
