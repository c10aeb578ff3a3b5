mod OperandsAt
pub mod OwnLimits
mod StandingLists
pub mod changes
pub mod filters
