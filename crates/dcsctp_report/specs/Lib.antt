pub mod Hexadecimal
pub mod JsonString
pub mod Printed
