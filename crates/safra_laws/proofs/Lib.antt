pub mod MovePaths
pub mod TreesAfter
pub mod backward
pub mod forward
pub mod invariant
pub mod parity
pub mod worked
