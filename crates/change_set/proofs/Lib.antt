pub mod Contents
pub mod Covers
pub mod DeltaLemmas
pub mod Effects
pub mod Examples
pub mod Gathering
pub mod Ranges
