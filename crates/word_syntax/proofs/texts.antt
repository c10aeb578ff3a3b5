-- Reading texts token by token: the next token, and the pattern of a text or the offset of its error.
pub mod FrontTokens
pub mod Midways
pub mod NextTokens
pub mod Prefixes
pub mod Readings
pub mod Strings
pub mod WordAnswers
