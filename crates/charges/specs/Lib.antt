pub mod Section
pub mod Editions
