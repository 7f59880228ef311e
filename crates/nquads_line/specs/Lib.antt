pub mod Faults
pub mod Grammar
pub mod Laws
pub mod Parts
pub mod Reading
pub mod Terms
pub mod Written
