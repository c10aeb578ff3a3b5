pub mod grammar
pub mod plain
pub mod reading
pub mod standing
