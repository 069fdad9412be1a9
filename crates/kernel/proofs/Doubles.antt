-- Doubles as numbers: their bit patterns, signs and sizes, their order, and what sums, differences and products keep.
pub mod Patterns
pub mod PatternOrder
pub mod Signs
pub mod Sizes
pub mod Places
pub mod Order
pub mod Same
pub mod Differences
pub mod Commute
pub mod Opposite
pub mod SumsFromZero
