pub mod Courses
pub mod Documents
pub mod Faults
pub mod Laws
pub mod Lines
pub mod State
pub mod Steps
pub mod Written
