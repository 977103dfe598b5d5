pub mod Replays
pub mod Rooms
pub mod Joining
