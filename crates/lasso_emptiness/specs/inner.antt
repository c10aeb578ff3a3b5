-- Definitions that only the contracts of inner functions use.
pub mod AcceptingComponents
pub mod Edges
pub mod Groups
pub mod Judged
pub mod Letters
pub mod Live
pub mod Needed
pub mod Picked
pub mod Splits
pub mod Taken
pub mod Tours
pub mod Trails
