pub mod Pieces
pub mod Pairs
