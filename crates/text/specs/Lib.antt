pub mod Hexadecimal
pub mod Columns
pub mod Numbers
pub mod Words
pub mod Laws
