pub mod Lines
pub mod Format
pub mod Judge
pub mod Theorems
