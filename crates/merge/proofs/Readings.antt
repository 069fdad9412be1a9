-- Lists that are read: their tracks, what three answers tell, and what the questions after them answer.
pub mod Tracks
pub mod Located
pub mod ThreeAnswers
pub mod AllRead
pub mod Asked
pub mod Passed
