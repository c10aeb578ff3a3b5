-- Conditions on cycles: substitution, verdicts by parts, and the edges that are needed.
pub mod Conditions
pub mod Judgements
pub mod Marked
pub mod Parts
pub mod Sufficient
