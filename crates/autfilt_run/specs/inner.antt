-- Definitions that only contracts of inner functions use.
pub mod Handling
pub mod OperandTurns
pub mod Taking
pub mod Running
