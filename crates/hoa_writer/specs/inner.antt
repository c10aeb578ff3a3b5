-- Definitions that only contracts of inner functions use.
pub mod Lines
pub mod JoinedTexts
