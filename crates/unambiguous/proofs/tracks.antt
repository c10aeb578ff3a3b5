-- Runs as lists of edge indices (tracks), joined and split, and runs of deterministic automata.
pub mod Accepted
pub mod Deterministic
pub mod Nth
pub mod Starts
pub mod Tracks
