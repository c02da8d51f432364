mod Rows
mod Bills
mod Counts
mod Pairs
mod Charges
mod Services
mod Steps
