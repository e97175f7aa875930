pub mod Trying
pub mod Stored
