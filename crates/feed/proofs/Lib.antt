mod Heads
mod Fed
mod Made
mod Others
mod Wording
mod Rests
