pub mod Items
pub mod Row
pub mod Filling
pub mod Answers
pub mod Carried
pub mod Samples
