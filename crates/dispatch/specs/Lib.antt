pub mod Checks
pub mod Extensions
pub mod Sets
pub mod Meets
pub mod Steps
pub mod Outcomes
pub mod Conditions
