-- Whether filters hold of an automaton, and what the verdict is.
pub mod Beside
pub mod Canonical
pub mod CanonicalEdges
pub mod CanonicalRuns
pub mod Comparing
pub mod FilterExamples
pub mod FilterLists
pub mod Kept
pub mod Meeting
pub mod Squares
pub mod Verdicts
