pub mod NameLaws
pub mod LinkLaws
pub mod LoopLaws
