pub mod DigitGrammar
pub mod Meaning
