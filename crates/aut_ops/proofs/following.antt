-- Simulation between automata, conditions on marks of cycles, and the sum of two automata.
pub mod CycleMarks
pub mod Languages
pub mod Simulations
pub mod SumLinks
pub mod SumRuns
