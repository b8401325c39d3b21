pub mod JudgeLaws
pub mod ChangeLaws
