pub mod Span
pub mod Dimension
pub mod Theorems
