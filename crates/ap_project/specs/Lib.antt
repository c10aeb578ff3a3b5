pub mod Hiding
pub mod Laws
pub mod inner
