-- Names, letters made of them, and lasso words: their prefixes, and those that spell the same infinite word.
pub mod LetterNames
pub mod SameEdges
pub mod SameWord
pub mod Spelled
pub mod Texts
pub mod Turns
