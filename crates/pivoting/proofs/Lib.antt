pub mod Ratios
pub mod Pivots
pub mod Stages
pub mod Columns
pub mod Inverse
pub mod Determinants
pub mod Distances
pub mod Single
