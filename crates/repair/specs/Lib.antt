pub mod Repair
pub mod Private
