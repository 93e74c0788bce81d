pub mod Faults
pub mod Next
