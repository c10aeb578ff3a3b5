pub mod Left
pub mod Opening
pub mod Sent
pub mod Unread
