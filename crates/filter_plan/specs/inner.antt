-- Definitions that only the contracts of private functions use.
pub mod Entries
pub mod Bounds
pub mod FormatPieces
pub mod Groups
pub mod Forms
pub mod Outputs
pub mod Given
