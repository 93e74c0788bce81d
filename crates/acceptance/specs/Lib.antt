pub mod Accepted
pub mod Walks
