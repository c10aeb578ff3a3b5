pub mod handling
pub mod printing
pub mod running
pub mod turns
