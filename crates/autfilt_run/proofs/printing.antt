-- What is printed of an automaton, and what a sink has gained.
pub mod FigureLines
pub mod Gains
pub mod ReadsAs
pub mod RefutationLines
pub mod Said
pub mod Writing
