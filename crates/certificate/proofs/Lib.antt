pub mod Lawful
pub mod Written
pub mod Heads
pub mod Exact
