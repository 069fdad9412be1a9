pub mod Layout
pub mod Read
pub mod Write
pub mod Record
pub mod Calls
pub mod Examples
pub mod Private
