pub mod Rotation
pub mod Eigen
pub mod Private
