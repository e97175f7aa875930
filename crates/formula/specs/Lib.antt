pub mod Holding
pub mod Ranking
pub mod Vectors
pub mod Graphs
pub mod Thresholds
pub mod Theorems
