-- Rotations of a matrix that is symmetric bit by bit, from the first state to the end of the sweeps.
pub mod Cells
pub mod ByRows
pub mod Stores
pub mod Sweeps
pub mod Means
