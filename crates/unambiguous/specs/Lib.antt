pub mod Faults
pub mod Laws
pub mod Parted
pub mod Runs
