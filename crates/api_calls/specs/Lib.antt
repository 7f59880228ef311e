pub mod Calls
pub mod Methods
