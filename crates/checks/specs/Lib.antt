pub mod Draws
pub mod Fingerprint
