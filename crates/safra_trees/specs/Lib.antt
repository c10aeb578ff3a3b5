pub mod Events
pub mod Flat
pub mod Laws
pub mod Same
pub mod Step
pub mod Trees
pub mod View
pub mod inner
