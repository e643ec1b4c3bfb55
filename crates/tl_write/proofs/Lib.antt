pub mod Keys
mod Counts
pub mod Fresh
mod Judged
pub mod Parts
mod Placed
mod PlacesOn
pub mod Rising
mod Statements
