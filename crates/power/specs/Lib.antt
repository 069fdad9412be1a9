pub mod Power
pub mod Condition
pub mod Private
