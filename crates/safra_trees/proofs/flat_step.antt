-- The step on the lists of a stored tree is the step of the tree.
pub mod ClaimSteps
pub mod Claimed
pub mod Finish
pub mod First
pub mod Gathered
pub mod Grown
pub mod OwnerSteps
pub mod Owners
pub mod Loops
pub mod OrderSteps
pub mod Orders
pub mod Placed
pub mod Sight
pub mod Splits
pub mod Survey
