-- What stands next in a text.
pub mod Begun
pub mod DeadEnds
pub mod Halts
pub mod Hopeless
pub mod Needed
pub mod NextCases
pub mod OneStanding
pub mod OpenEnds
pub mod Readings
pub mod Settled
pub mod SomeStanding
pub mod StandingAnswers
pub mod StandingTokens
