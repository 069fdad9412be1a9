pub mod Calls
pub mod Exchange
pub mod FusedTracks
pub mod Made
pub mod Steps
pub mod Triangle
