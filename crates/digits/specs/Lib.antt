pub mod Symbols
pub mod DigitMap
pub mod Dialling
pub mod Language
pub mod Codes
pub mod Ways
pub mod Words
