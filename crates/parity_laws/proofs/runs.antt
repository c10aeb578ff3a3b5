-- Runs of deterministic and of complete automata.
pub mod OnePath
pub mod Runs
