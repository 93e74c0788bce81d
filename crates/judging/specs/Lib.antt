pub mod Scratch
pub mod Search
pub mod Parts
pub mod Judged
pub mod Replies
