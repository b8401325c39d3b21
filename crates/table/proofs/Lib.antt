pub mod TableLaws
pub mod MapLaws
