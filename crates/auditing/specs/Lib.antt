pub mod Plain
pub mod Telling
pub mod Promise
