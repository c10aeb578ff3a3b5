-- Green names as odd priorities.
pub mod Both
pub mod First
pub mod GreenIsOdd
pub mod Least
pub mod OddIsGreen
