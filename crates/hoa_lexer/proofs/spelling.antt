-- How tokens are spelled.
pub mod Apart
pub mod Comments
pub mod Dashes
pub mod FirstBytes
pub mod Numbers
pub mod Runs
pub mod Strings
pub mod Words
