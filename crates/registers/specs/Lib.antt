pub mod Window
pub mod Registers
pub mod Ports
pub mod Operands
