pub mod Canonical
pub mod Example
pub mod Language
pub mod Priorities
pub mod Rounds
pub mod Trees
