-- Pairings, the pairs that block them, and the one that no pair blocks.
pub mod Pairings
pub mod Settled
pub mod Blocking
pub mod Stable
