pub mod Communications
pub mod Either
pub mod Sets
