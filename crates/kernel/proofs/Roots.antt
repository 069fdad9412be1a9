-- The rounded root of IEEE 754: the whole number nearest to a root, its bit pattern, and the theorems of `sqrt`.
pub mod Rounding
pub mod NearestWhole
pub mod RootPatterns
pub mod SquareRoot
pub mod Existence
pub mod Tested
