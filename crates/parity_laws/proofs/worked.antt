-- The worked example.
pub mod Example
