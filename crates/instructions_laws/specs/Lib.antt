pub mod Beginnings
pub mod Bytes
pub mod Codes
pub mod Defined
pub mod Lengths
pub mod Named
pub mod Opcode
