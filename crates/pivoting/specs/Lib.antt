pub mod Pivot
pub mod Solve
pub mod Det
pub mod Private
