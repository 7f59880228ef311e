pub mod Graphs
pub mod Stores
