pub mod Ones
pub mod Packing
