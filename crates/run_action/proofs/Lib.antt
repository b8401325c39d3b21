pub mod FoldLaws
pub mod Lists
pub mod RunLaws
pub mod ActsLaws
pub mod StartedLaws
