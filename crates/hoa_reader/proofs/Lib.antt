pub mod counting
pub mod description
pub mod labels
pub mod validity
