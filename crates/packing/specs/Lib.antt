pub mod Bytes
pub mod Fields
pub mod Packing
pub mod Whole
