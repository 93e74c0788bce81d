pub mod Either
pub mod Merged
pub mod Optional
pub mod Sizes
