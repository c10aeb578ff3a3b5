-- A printed word is read back as a pattern that it matches.
pub mod Joining
pub mod OverNames
pub mod PrintedTokens
pub mod PrintedWords
