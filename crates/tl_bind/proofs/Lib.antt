pub mod Chains
pub mod Fitting
pub mod Lists
pub mod Places
pub mod Values
