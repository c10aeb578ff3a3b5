pub mod classes
pub mod complements
pub mod directions
pub mod letters
pub mod runs
pub mod worked
