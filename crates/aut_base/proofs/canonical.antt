-- Canonical labels: their truth, the valuations that they are made of, and their laws.
pub mod CanonicalAutomata
pub mod CanonicalBelow
pub mod CanonicalLabels
pub mod CanonicalTruth
pub mod LabelExamples
pub mod LabelLaws
pub mod ValuationLetters
pub mod ValuationLists
