pub mod Answers
pub mod PlaceExamples
pub mod Places
pub mod Runs
