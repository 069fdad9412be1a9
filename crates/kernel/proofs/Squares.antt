-- The root of a square, and operations that are exact: what the condition number of a 1 by 1 matrix needs of doubles.
pub mod SquarePatterns
pub mod RootOfSquare
pub mod Exacts
