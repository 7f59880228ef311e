pub mod Answers
pub mod Kept
pub mod Parts
pub mod Places
pub mod Shapes
pub mod Sought
pub mod Steps
pub mod Ways
