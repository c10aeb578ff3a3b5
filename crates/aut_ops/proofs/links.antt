-- Links and the edges that they are, the truth of their labels, and lists of them made item by item.
pub mod Labels
pub mod Linked
pub mod ListSteps
pub mod RangeSteps
