pub mod Accounts
pub mod Settlement
pub mod Calls
pub mod Histories
pub mod Law
pub mod Called
