-- The automaton of a pattern, and the words that match the pattern.
pub mod BelowNames
pub mod PatternEdges
pub mod PatternWalks
pub mod PatternWords
