pub mod Walking
pub mod Circling
pub mod Rounds
