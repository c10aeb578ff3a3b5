-- Paths and runs over lasso words, and what automata accept by them.
pub mod Examples
pub mod LassoRuns
pub mod OneState
pub mod OtherEdges
pub mod Paths
pub mod Walks
