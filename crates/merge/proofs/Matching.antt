-- The three pairings: candidates are those of their keys, tables of partners are pairings, and what the definitions mean in words.
pub mod Candidates
pub mod Partners
pub mod Covariances
pub mod Tables
pub mod Meaning
