pub mod Crc
pub mod Pages
pub mod Arguments
pub mod Lines
pub mod Listing
