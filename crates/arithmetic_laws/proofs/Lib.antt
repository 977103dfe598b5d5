pub mod Shows
pub mod Upto
