pub mod Dimension
