pub mod next_token
pub mod spelling
