pub mod Queueing
pub mod Answered
pub mod Ordering
pub mod Wiping
pub mod Replying
