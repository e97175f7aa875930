pub mod Rows
pub mod Rank
