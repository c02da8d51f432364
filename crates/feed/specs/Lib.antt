pub mod Words
pub mod Groups
pub mod Heads
pub mod Reading
pub mod Feeding
