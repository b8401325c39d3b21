pub mod NameLaws
pub mod ReadBack
