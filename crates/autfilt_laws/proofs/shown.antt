-- For each fault of a text, the byte at which a reader stops.
pub mod Ends
pub mod Fronts
pub mod Numbers
pub mod Dashes
pub mod Words
pub mod NoTokens
pub mod Places
