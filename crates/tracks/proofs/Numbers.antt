-- The numbers of a list record: how many fields and map bits there are, bytes and their bits, values and their 64 bits.
pub mod Fields
pub mod Bits
pub mod Spare
pub mod Values
