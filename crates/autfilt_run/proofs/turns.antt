-- What calls of a session mean as events of a run.
pub mod Alike
pub mod Counted
pub mod Files
pub mod Openings
pub mod OperandTurning
pub mod Points
pub mod Preparing
pub mod Reading
pub mod Stepping
pub mod Turning
