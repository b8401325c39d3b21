pub mod TryLaws
pub mod ListLaws
pub mod AgreeLaws
