pub mod Demands
pub mod Afternoon
pub mod PairsNeeded
pub mod Spare
