mod Limits
mod Parts
mod Sums
