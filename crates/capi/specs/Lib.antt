pub mod Told
pub mod Repairs
pub mod Powers
pub mod Comparisons
pub mod Fusions
pub mod Private
pub mod Merges
