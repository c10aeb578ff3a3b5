pub mod SymbolicAutomata
pub mod Deterministic
pub mod FormulaCode
pub mod Index
pub mod Kept
pub mod Links
pub mod OtherNames
pub mod Surveys
