pub mod Distance
pub mod Fields
pub mod Examples
pub mod Private
