pub mod Content
pub mod Cover
pub mod Deltas
pub mod Kept
pub mod Places
