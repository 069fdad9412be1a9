pub mod Mat3
