pub mod CommandLaws
