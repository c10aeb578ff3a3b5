-- Definitions that only contracts of inner functions use.
pub mod Names
pub mod Steps
