pub mod Covariance
pub mod Joint
pub mod Comparisons
pub mod Directions
