pub mod Settings
pub mod Services
