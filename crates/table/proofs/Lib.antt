mod Ascending
mod Calls
mod Halving
pub mod Laws
pub mod Places
pub mod Revising
mod Shift
