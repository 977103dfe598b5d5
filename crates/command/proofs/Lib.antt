mod Spelled
pub mod Listing
pub mod Texts
pub mod Writing
