pub mod Meaning
pub mod Meanings
