pub mod Steps
pub mod LineLaws
pub mod Theorems
pub mod Statements
