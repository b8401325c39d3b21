pub mod Subset
pub mod SubsetRead
