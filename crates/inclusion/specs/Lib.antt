pub mod Common
pub mod Laws
