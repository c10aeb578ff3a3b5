-- The pairs of a product, as they are reached, listed and numbered.
pub mod BreadthFirst
pub mod Existence
pub mod Explorations
pub mod Faults
pub mod Laws
pub mod Listings
pub mod Pairings
pub mod Places
