pub mod Fitting
pub mod Lines
pub mod Meanings
pub mod Text
