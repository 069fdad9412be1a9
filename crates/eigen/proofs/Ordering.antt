-- The insertion sort: how it is made, that it descends, and that it is stable.
pub mod Orders
pub mod Sorting
pub mod Stability
