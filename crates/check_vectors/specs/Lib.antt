pub mod Accesses
pub mod Recording
