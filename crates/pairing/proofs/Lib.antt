pub mod Tests
pub mod Ordering
pub mod Stability
pub mod Choosing
pub mod Partners
pub mod Invariance
