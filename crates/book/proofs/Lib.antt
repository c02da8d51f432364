mod Accounts
mod Asking
mod Carried
mod Entering
