pub mod Matching
pub mod Readings
pub mod FusedVerdicts
pub mod Buffers
pub mod Demand
pub mod Winning
