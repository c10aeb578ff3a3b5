-- Products as automata: their edges, well-formedness, runs and languages.
pub mod JointEdges
pub mod MadeProducts
pub mod PairRuns
pub mod ProductFormed
pub mod ProductLanguages
pub mod ProductRuns
