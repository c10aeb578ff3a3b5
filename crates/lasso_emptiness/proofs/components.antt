-- Edges grouped by components and divided by a `Fin`, and the search among them.
pub mod Dividing
pub mod Grouping
pub mod Picking
pub mod Searching
