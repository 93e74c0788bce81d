pub mod Reading
pub mod Putting
pub mod Taking
pub mod Sizing
pub mod Refusals
pub mod Opening
pub mod Passing
pub mod Clearing
