pub mod Fits
pub mod Ids
pub mod Laws
pub mod Parts
pub mod Responses
pub mod Shorts
pub mod Tables
