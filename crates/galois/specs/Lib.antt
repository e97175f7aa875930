pub mod Codes
pub mod Modular
pub mod Polynomials
pub mod Steps
pub mod Tables
pub mod Orders
