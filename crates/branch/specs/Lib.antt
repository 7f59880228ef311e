pub mod Bounds
pub mod Counts
pub mod Deltas
pub mod Layers
