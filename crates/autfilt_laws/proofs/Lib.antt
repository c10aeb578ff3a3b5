pub mod alike
pub mod due
pub mod existence
pub mod refuted
pub mod shown
