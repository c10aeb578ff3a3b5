-- The language of a determinised automaton, both ways.
pub mod Both
pub mod FromTrees
pub mod ToTrees
pub mod Trees
