pub mod Realised
