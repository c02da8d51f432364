pub mod Classes
pub mod Intervals
pub mod Refusals
pub mod Services
