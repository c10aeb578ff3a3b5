pub mod Outcomes
pub mod canonical
pub mod lists
pub mod numbers
pub mod order
pub mod runs
pub mod trees
pub mod words
