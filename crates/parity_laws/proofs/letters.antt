-- Edges and moves, marks and priorities.
pub mod Moves
pub mod Priorities
