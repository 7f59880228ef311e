pub mod Columns
pub mod Laws
pub mod Member
pub mod Reading
pub mod Rows
pub mod Tables
pub mod Written
