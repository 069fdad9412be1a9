-- Reading: items one after another, what an accepted list says of its bytes, and what the calls' answers tell.
pub mod Items
pub mod Stream
pub mod Accepted
pub mod Known
pub mod Offsets
