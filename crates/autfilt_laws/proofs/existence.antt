-- There is a run over all texts that together have fewer bytes than the limit.
pub mod Shorter
pub mod Examined
pub mod Stopping
pub mod Found
mod GoodOperands
mod Openings
pub mod InOperands
pub mod InStreams
pub mod Runs
pub mod Silent
pub mod SomeAnswers
