pub mod Alike
mod Accesses
mod BoundQueries
mod Bounds
mod Parts
mod Plans
pub mod Suffices
mod Tests
