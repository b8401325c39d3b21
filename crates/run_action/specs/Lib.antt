pub mod Fold
pub mod Promises
