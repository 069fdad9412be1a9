-- The return trip: what is read is written as the same bytes, and what is written is read as the same values.
pub mod TracksRead
pub mod RecordsRead
pub mod BothWays
pub mod Calls
pub mod Sizes
