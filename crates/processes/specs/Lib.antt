pub mod Rules
pub mod Sameness
pub mod Store
