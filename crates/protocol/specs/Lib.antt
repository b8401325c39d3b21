pub mod Types
pub mod Ranges
