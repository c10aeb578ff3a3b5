-- The run of the command: preparing, the steps, the end, and the lines about it.
pub mod Advanced
pub mod Arguments
pub mod Carried
pub mod Causes
pub mod Ending
pub mod MadePlans
pub mod Noting
pub mod OpenedNames
pub mod Prepared
pub mod RunExamples
pub mod Running
pub mod Stepped
pub mod Stepping
