pub mod Onward
pub mod ListLaws
pub mod ItemLaws
pub mod CommandLaws
pub mod PartLaws
