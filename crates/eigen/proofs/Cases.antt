-- Matrices whose eigenpairs are known by themselves: one entry, order 2, and zeros.
pub mod PlaneSteps
pub mod Single
pub mod Zero
