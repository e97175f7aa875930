pub mod Combinations
pub mod Spans
pub mod Tested
pub mod Closures
pub mod Dimensions
