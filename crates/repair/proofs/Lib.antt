pub mod Clips
pub mod Outcomes
pub mod Reports
pub mod SmallOrders
pub mod Masks
pub mod Largest
