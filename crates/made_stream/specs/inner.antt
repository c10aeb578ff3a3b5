-- Definitions that only the contracts of private functions use.
pub mod Left
pub mod Parts
