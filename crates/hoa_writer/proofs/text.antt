-- Lemmas on the pieces of the text.
pub mod Formulas
pub mod InOrder
pub mod Lines
pub mod JoinedTexts
pub mod Settled
