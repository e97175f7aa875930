pub mod Members
pub mod Minimal
pub mod Listed
pub mod Chains
pub mod Records
