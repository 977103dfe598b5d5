pub mod Appending
pub mod Asked
pub mod Filling
mod Areas
