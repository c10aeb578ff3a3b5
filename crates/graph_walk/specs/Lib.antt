pub mod Components
pub mod Path
pub mod Reach
pub mod Walk
pub mod inner
