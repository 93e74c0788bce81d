pub mod Lines
pub mod Numbers
pub mod Forms
pub mod Marks
