pub mod Same
pub mod Pivots
pub mod Counts
