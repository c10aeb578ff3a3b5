mod parting
pub mod tracks
