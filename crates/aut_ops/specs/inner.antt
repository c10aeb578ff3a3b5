-- Definitions that only the contracts of inner functions use.
pub mod Faults
pub mod Joins
pub mod Linked
pub mod Pairings
pub mod Parts
pub mod Renumbering
