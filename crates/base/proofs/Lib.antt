pub mod TestLaws
pub mod PickLaws
pub mod TextLaws
pub mod OutLaws
