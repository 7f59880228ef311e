pub mod Counts
pub mod Faults
pub mod Laws
pub mod Locations
pub mod Manners
pub mod Readings
