pub mod MergeList
pub mod NobodyLost
pub mod Examples
pub mod Private
