pub mod ItemLaws
pub mod OrderLaws
pub mod FillLaws
pub mod TableLaws
pub mod SoundLaws
pub mod RoomLaws
pub mod Theorems
pub mod Samples
