-- Rows in a buffer: their bytes and places, how they are written one after the other, how they are counted, and verdicts that come later.
pub mod Bytes
pub mod Chunks
pub mod HowMany
pub mod RowNumbers
pub mod Appending
pub mod Places
pub mod Columns
pub mod Totals
pub mod LateVerdicts
