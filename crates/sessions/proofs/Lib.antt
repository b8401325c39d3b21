pub mod LineLaws
pub mod EachLaws
pub mod PartLaws
pub mod FitLaws
pub mod AnswerLaws
pub mod TakenLaws
pub mod SessionLaws
pub mod SessionExample
