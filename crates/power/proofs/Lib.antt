pub mod Calls
pub mod Damping
pub mod Stops
pub mod Iteration
pub mod Starts
pub mod Ratios
pub mod Solutions
pub mod OneByOne
