-- The next token of a text, and lists of tokens.
pub mod Asked
pub mod Between
pub mod Cases
pub mod Exclusive
pub mod Fronts
pub mod Moving
pub mod StuckPlaces
pub mod TokenExamples
pub mod Unique
