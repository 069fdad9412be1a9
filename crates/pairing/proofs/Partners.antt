-- The tables of partners while they are filled.
pub mod Filling
pub mod Entries
pub mod Tables
