pub mod TreeLaws
pub mod SeekLaws
pub mod StandLaws
