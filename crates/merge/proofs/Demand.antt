-- Demand 3: what the rows are, that every answer gives it, and that no other answer does.
pub mod Standing
pub mod Order
pub mod Shown
pub mod AcceptedLists
pub mod EveryAnswer
pub mod FusedRows
pub mod Sequences
pub mod Listings
pub mod Listed
pub mod OnlyAnswer
