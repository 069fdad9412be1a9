pub mod Symmetry
pub mod Ata
pub mod Padding
pub mod Factor
pub mod Rows
pub mod Damping
