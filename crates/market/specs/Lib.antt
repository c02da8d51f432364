pub mod Answers
pub mod Bare
pub mod Limits
pub mod Shapes
