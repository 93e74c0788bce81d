pub mod Fits
pub mod Telling
pub mod Writing
