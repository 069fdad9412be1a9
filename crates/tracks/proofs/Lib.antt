pub mod Numbers
pub mod Slices
pub mod Reading
pub mod Records
pub mod RoundTrip
