pub mod Keeping
pub mod Slot
