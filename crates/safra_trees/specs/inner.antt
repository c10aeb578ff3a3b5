-- Definitions that only the contracts of private functions use.
pub mod Claims
pub mod Free
pub mod Names
pub mod Order
pub mod Passes
pub mod Sight
pub mod Slices
