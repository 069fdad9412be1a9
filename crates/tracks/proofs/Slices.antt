-- Lists one after another, and slices that loops fill with them.
pub mod Lists
pub mod Laid
pub mod Putting
