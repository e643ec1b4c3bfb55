pub mod Store
pub mod World
pub mod Move
pub mod Next
pub mod Told
pub mod Run
pub mod Stands
pub mod Law
