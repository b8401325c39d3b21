pub mod LengthLaws
pub mod PageLaws
pub mod RowLaws
