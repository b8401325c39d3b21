pub mod RunsToLaws
