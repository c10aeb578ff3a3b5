-- Paths along edges, closed ones, and the words that they read.
pub mod Accepted
pub mod Backwards
pub mod Carried
pub mod Lettered
pub mod Passable
pub mod Touring
pub mod Trails
