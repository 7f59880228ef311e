pub mod Houses
pub mod Rows
