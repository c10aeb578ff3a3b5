-- The dual condition.
pub mod Dual
