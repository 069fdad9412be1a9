pub mod Pairing
pub mod Keys
pub mod Examples
pub mod Private
