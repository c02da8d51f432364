pub mod Greatest
pub mod Open
