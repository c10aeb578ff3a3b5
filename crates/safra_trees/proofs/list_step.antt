-- Lemmas on the step of a tree as a list.
pub mod Forests
pub mod KeptPlaces
pub mod Local
pub mod Moved
pub mod Over
pub mod Places
pub mod Pruned
pub mod Ranks
