pub mod Lending
pub mod Folding
pub mod Keeping
