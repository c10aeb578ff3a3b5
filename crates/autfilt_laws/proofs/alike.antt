-- The texts alone determine which events happen, and how the run ends.
mod BadPlaces
mod Full
mod Limits
pub mod Answers
pub mod Asking
pub mod AtBytes
pub mod EndPlaces
pub mod Ends
pub mod Faults
pub mod LeftBehind
pub mod Like
pub mod Looks
pub mod OperandEnds
pub mod Operands
pub mod PlaceExamples
pub mod Readable
pub mod Runs
pub mod SamePlans
pub mod Steps
pub mod Tallied
pub mod Verdicts
