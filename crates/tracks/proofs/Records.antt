-- A track's own bytes: what they are made of, where they stand in an accepted list, and the parts that are handed out.
pub mod Bytes
pub mod Ends
pub mod Walk
pub mod Parts
