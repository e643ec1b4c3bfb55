pub mod Chains
pub mod Faults
pub mod Firsts
pub mod Founds
pub mod Repeated
pub mod Scopes
pub mod Sets
