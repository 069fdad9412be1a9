pub mod Products
pub mod Sums
pub mod Norms
pub mod Cholesky
pub mod Regularize
pub mod Private
