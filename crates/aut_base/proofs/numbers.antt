-- Numbers and truth values, and tests on them.
pub mod Capped
pub mod Numbers
pub mod Pigeonhole
pub mod Truth
