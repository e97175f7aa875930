pub mod Codes
pub mod Extended
pub mod Free
pub mod Inverses
