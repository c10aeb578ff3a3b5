-- The unique reduced lasso word of an infinite word, computed by least periods of its cycle.
pub mod Cyclic
pub mod LeastPeriods
pub mod LetterSame
pub mod OneReduced
pub mod ReducedWords
