-- From a stable green name of the trees to an accepting run of the automaton.
pub mod Accepted
pub mod Cycles
pub mod Starts
pub mod Steps
pub mod Traces
