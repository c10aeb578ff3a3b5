-- Explorations class by class make determinised automata.
pub mod Expanded
pub mod Explored
pub mod Guards
pub mod RootMoves
