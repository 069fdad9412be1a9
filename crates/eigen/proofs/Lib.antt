pub mod Rotations
pub mod Ordering
pub mod Pairs
pub mod Cases
pub mod Answered
