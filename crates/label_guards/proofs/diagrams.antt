-- Diagrams: reduced ones as nodes are added, the truth at their places, operations on them, and tables of results.
pub mod Agreement
pub mod Growth
pub mod Joins
pub mod Numbered
pub mod Outcomes
pub mod Reduced
pub mod Tables
pub mod Taken
pub mod Unique
