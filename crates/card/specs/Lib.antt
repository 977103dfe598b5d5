pub mod Cards
pub mod Witnesses
pub mod Looks
pub mod Stops
