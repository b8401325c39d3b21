pub mod Pick
pub mod Lists
pub mod Bytes
pub mod Out
