pub mod Kinds
pub mod Heads
pub mod Sums
pub mod Bounds
