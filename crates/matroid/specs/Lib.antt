pub mod Closure
pub mod Members
pub mod Theorems
