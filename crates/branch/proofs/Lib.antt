pub mod BoundLemmas
mod CountLemmas
pub mod DeltaLemmas
pub mod Examples
pub mod FoldLemmas
pub mod LayerLemmas
