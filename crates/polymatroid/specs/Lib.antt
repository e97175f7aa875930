pub mod Sets
pub mod Tests
pub mod Polymatroid
pub mod Realising
pub mod Inequality
pub mod Certificate
