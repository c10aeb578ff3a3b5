-- The parsers of words and letters accept exactly what the grammar derives.
pub mod Completions
pub mod FromLeft
pub mod InLetters
pub mod LetterParts
pub mod LetterRuns
pub mod NamePlaces
pub mod Nots
pub mod Runs
pub mod WordParts
pub mod Words
