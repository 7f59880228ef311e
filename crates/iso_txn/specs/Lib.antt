pub mod Held
pub mod Kept
pub mod Repository
pub mod Sizes
pub mod Stacks
pub mod Watch
