mod Feeds
pub mod Joined
mod Numerals
mod Reading
