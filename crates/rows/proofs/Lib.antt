pub mod Finding
pub mod Sameness
