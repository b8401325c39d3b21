pub mod Keeping
pub mod Reporting
pub mod Matching
pub mod ReadBack
pub mod Theorems
