-- Valuations by their numbers: those that meet a guard, the least of them, and its letter.
pub mod Leasts
pub mod LetterSteps
pub mod Valuations
