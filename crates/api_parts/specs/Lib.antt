pub mod Faults
pub mod Laws
pub mod Parameters
pub mod Selections
pub mod Writes
