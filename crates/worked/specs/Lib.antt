pub mod Files
pub mod Making
pub mod Runs
pub mod Worked
