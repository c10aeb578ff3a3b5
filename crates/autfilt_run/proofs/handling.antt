-- Filtering and printing of an automaton that was read.
pub mod Handling
pub mod PassedLimits
pub mod Taking
