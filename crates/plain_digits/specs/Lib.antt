pub mod Tries
pub mod Agree
