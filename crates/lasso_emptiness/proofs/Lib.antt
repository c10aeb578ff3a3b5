pub mod components
pub mod conditions
pub mod trails
