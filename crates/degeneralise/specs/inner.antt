-- Definitions that only the contracts of inner functions use.
pub mod Parts
