pub mod Columns
pub mod Doors
pub mod Jobs
pub mod Nexts
pub mod Served
