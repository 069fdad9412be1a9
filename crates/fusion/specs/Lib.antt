pub mod Fusion
pub mod Examples
pub mod Private
