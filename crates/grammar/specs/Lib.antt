pub mod Characters
pub mod Grammar
pub mod Faults
