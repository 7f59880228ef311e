pub mod Logs
pub mod Clashes
