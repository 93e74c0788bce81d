pub mod Bits
pub mod Sheets
pub mod Calls
pub mod Gaps
