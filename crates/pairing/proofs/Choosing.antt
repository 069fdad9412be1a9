-- The search for the candidate that comes first.
pub mod Searches
pub mod Best
pub mod Chosen
