pub mod round_trip
pub mod spelling
pub mod text
