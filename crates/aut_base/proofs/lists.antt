-- Lists: their members and indices, what holds of each item, and tests of the items.
pub mod AllByRecursion
pub mod Copies
pub mod ListTests
pub mod Lists
pub mod Members
pub mod Steps
