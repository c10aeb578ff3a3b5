-- Diagrams built anew: brought from another store, with a proposition set, and on what they depend.
pub mod Brought
pub mod Dependence
pub mod Fixed
