pub mod Decides
pub mod Integers
pub mod Forms
pub mod Lines
pub mod Soundness
pub mod Claims
pub mod FromFn
