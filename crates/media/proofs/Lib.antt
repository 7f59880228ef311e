pub mod ElementLaws
mod Examples
pub mod GreatestLaws
pub mod PieceLaws
pub mod QualityLaws
pub mod RangeLaws
