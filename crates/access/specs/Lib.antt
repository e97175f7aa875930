pub mod Table
pub mod Format
pub mod View
