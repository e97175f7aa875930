pub mod Gathering
pub mod Vectors
pub mod Gathered
pub mod Thresholds
pub mod Graphs
