mod Steps
mod Weights
mod Claim
mod Totals
mod Typed
pub mod Proven
