-- Candidates in their order: sorted lists, the first that passes a test, and the order by keys.
pub mod Sorting
pub mod Least
pub mod Keys
